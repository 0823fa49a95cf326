pub mod Counts
pub mod MemShelfState
pub mod MemSinkState
pub mod MuteShelfState
pub mod Shelf
pub mod Sink
pub mod Streams
