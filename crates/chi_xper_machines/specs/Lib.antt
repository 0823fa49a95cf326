pub mod Closings
pub mod Constants
pub mod Laws
pub mod Runs
pub mod Trials
