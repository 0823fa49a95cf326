pub mod Assigned
pub mod Entering
pub mod Keyed
pub mod Views
pub mod Walks
