pub mod Calls
pub mod Kinds
pub mod Settings
pub mod Spans
pub mod Surroundings
pub mod Terms
