pub mod Marks
pub mod Words
pub mod Expressions
pub mod Statements
