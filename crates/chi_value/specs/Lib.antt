pub mod Alike
pub mod Default
pub mod Limit
pub mod Names
pub mod Order
pub mod Plain
pub mod Text
