pub mod Branches
pub mod Heads
pub mod Rests
