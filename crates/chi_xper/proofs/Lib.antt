pub mod Choosing
mod Endings
pub mod Fined
pub mod Going
pub mod Kept
pub mod Layers
pub mod Leading
pub mod Nested
pub mod Plainly
mod Rows
pub mod Single
pub mod Sounding
pub mod Taking
pub mod Tasks
pub mod Turns
