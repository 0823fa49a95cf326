pub mod Ascending
pub mod By
pub mod Chosen
pub mod Dictionaries
pub mod Sets
