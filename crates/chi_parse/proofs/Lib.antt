pub mod Shapes
pub mod Stretch
pub mod Ending
pub mod Rows
pub mod Branches
