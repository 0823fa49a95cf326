pub mod Ints
pub mod Layers
pub mod Turns
