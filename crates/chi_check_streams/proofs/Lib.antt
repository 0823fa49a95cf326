pub mod Equations
pub mod TrialEquations
