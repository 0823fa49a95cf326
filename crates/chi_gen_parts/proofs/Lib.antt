pub mod AddedExpressions
pub mod AddedParts
pub mod AddedTargets
pub mod Growing
pub mod Keeping
pub mod Sounding
