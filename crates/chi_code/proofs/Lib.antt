pub mod Naming
pub mod Sized
pub mod Unique
