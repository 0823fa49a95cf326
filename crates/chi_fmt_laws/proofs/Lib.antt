pub mod KeptStatements
pub mod KeptTrials
pub mod KeptPrograms
pub mod Alike
