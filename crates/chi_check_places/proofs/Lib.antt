pub mod Faults
pub mod Types
pub mod Rules
pub mod ReadParts
pub mod Calls
pub mod Expressions
pub mod TypeTrees
pub mod Induction
