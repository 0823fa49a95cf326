pub mod Tries
pub mod Foretold
pub mod Unspent
pub mod Labels
