pub mod Characters
pub mod Keywords
pub mod Prefixes
pub mod Signs
pub mod Spelling
pub mod Tables
pub mod Texts
pub mod Tokens
