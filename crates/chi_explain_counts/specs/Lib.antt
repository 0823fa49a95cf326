pub mod Found
pub mod Expressions
pub mod Statements
pub mod Programs
pub mod Numbers
