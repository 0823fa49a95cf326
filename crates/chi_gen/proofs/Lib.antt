pub mod AddedBlocks
pub mod AddedPrograms
pub mod AddedStatements
pub mod Passing
pub mod Sounding
