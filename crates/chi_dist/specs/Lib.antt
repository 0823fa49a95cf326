pub mod Draws
pub mod Exponential
pub mod Streams
