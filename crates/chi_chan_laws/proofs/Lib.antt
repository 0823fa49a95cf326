pub mod Scans
pub mod Agreeing
