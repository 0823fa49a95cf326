pub mod Barred
pub mod Before
