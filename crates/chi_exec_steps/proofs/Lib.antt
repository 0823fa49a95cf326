pub mod Turns
pub mod Keyed
pub mod Stepped
pub mod Counts
pub mod Aims
pub mod Walks
