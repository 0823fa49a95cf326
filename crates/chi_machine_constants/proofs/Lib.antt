pub mod Once
pub mod Lined
