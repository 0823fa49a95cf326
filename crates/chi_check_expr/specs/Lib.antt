pub mod Answers
pub mod Calls
pub mod Clean
pub mod Expressions
pub mod Laws
pub mod Reads
pub mod TypeTrees
pub mod Typing
