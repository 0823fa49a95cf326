pub mod MarkedActors
pub mod Enabled
pub mod Touched
pub mod Frames
pub mod Mending
pub mod Led
pub mod Running
