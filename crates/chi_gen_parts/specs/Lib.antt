pub mod Added
pub mod Soundness
