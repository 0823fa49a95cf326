pub mod Configurations
pub mod Meetings
pub mod Plans
pub mod Takings
pub mod Begun
