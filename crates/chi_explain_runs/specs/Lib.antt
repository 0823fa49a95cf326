pub mod Waits
pub mod Laws
pub mod Limits
pub mod Turns
