pub mod Conditions
pub mod Deeds
pub mod Ends
pub mod Experiments
pub mod Items
pub mod Leading
pub mod Ran
pub mod Tasks
