pub mod Answered
pub mod Layers
