pub mod Judging
pub mod Asking
pub mod Reading
