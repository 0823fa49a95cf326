pub mod AlternativeSteps
pub mod ElementSteps
pub mod Folds
pub mod StatementSteps
