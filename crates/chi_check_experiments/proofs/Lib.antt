pub mod CallSteps
pub mod TrialFolds
pub mod TrialSteps
