pub mod Headers
pub mod Definitions
