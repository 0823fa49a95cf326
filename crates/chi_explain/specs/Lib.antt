pub mod Excerpts
pub mod Explanations
pub mod Lexical
