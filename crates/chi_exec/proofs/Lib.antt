pub mod Hints
pub mod Fusing
pub mod Popped
pub mod Loops
pub mod Leading
pub mod Waiting
pub mod Answers
