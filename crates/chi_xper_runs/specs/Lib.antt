pub mod Constants
pub mod Models
