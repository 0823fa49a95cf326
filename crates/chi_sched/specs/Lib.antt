pub mod Formulas
pub mod Policies
pub mod Stored
