pub mod Format
pub mod FormatCodes
pub mod Front
pub mod Growth
pub mod Refusal
pub mod SoFar
