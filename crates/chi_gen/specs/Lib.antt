pub mod Passes
pub mod Soundness
