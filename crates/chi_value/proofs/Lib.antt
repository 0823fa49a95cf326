pub mod Growth
pub mod OrderLaws
pub mod Rest
mod Rows
pub mod Turns
