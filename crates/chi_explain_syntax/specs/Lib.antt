pub mod Standing
pub mod Listing
pub mod Syntax
