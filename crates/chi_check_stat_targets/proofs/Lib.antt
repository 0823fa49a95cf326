pub mod Before
pub mod Twice
pub mod Unconverted
