pub mod Settings
pub mod Moves
