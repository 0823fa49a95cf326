pub mod Fields
pub mod Parts
pub mod Pieces
pub mod Readings
pub mod Turns
mod Rows
