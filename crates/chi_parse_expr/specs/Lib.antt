pub mod Passing
pub mod Nested
pub mod Grouping
pub mod Values
