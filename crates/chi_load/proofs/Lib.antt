mod Grouped
pub mod Short
