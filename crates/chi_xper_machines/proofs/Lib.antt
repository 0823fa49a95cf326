pub mod Breaking
pub mod Closing
pub mod Coming
pub mod Made
pub mod Places
pub mod Telling
pub mod Words
