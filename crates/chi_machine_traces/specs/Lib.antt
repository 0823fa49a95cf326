pub mod Below
pub mod Passing
pub mod Told
pub mod Turns
