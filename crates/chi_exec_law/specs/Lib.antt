pub mod Instructions
pub mod Laws
pub mod Machine
pub mod Runs
pub mod Standing
pub mod State
