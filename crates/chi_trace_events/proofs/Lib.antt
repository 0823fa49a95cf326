pub mod Lines
pub mod Shown
pub mod Present
pub mod Unmade
pub mod Traced
