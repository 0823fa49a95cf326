pub mod Lists
pub mod Ascending
pub mod Keeping
pub mod Havings
pub mod Pairs
pub mod Options
pub mod Listings
