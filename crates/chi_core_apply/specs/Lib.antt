pub mod Best
pub mod Bounds
pub mod Failures
pub mod Operands
pub mod Scenery
