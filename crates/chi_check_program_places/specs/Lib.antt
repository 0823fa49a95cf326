pub mod Below
pub mod Lineless
