pub mod Scanning
pub mod Acting
pub mod Ascending
pub mod Listing
pub mod Reaching
