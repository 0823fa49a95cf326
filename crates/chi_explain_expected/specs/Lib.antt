pub mod Expected
pub mod Depth
