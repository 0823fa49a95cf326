pub mod Help
pub mod Topics
