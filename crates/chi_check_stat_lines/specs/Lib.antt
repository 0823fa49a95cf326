pub mod Stated
pub mod States
pub mod Values
pub mod Declarations
pub mod Lines
pub mod Blocks
