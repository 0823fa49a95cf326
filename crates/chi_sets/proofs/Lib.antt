pub mod Ascending
pub mod DictionaryLaws
pub mod Members
pub mod Orders
pub mod Repeats
pub mod Searches
pub mod SetLaws
pub mod Turns
