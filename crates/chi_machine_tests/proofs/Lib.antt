pub mod Begun
pub mod Constants
pub mod Kept
pub mod Values
