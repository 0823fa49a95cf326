pub mod Below
pub mod Telling
pub mod There
