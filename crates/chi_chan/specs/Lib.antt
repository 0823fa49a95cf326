pub mod Held
pub mod Lined
pub mod Seated
pub mod Kept
