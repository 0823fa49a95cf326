pub mod Depth
pub mod Fits
pub mod Joined
pub mod Laws
pub mod Plain
pub mod Same
