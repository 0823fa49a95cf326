pub mod Cuts
pub mod Placed
pub mod Asked
pub mod Endings
pub mod Readings
pub mod Judgements
