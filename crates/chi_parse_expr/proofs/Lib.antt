pub mod Shapes
pub mod Loops
pub mod Grouping
pub mod Rows
