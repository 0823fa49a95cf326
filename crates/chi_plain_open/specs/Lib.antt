pub mod Drafts
pub mod Instances
pub mod Taken
pub mod Acted
pub mod Offered
