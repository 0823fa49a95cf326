pub mod Whereabouts
pub mod Partners
pub mod Joins
pub mod Finding
pub mod WaitingText
