pub mod Consumed
pub mod Passed
pub mod Mute
