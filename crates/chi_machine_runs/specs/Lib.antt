pub mod Alone
pub mod Kept
pub mod Keeping
pub mod Making
pub mod Resuming
pub mod Views
