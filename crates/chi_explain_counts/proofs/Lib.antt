pub mod Examples
pub mod Lengths
