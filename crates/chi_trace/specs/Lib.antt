pub mod Events
pub mod Filters
pub mod Probes
pub mod Lines
pub mod Logs
pub mod Ends
pub mod Told
