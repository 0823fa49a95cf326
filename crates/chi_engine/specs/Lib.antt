pub mod Below
pub mod Courses
pub mod Running
pub mod Settings
