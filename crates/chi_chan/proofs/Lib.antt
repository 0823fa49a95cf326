pub mod Lining
pub mod Scanning
pub mod Seating
pub mod Standing
