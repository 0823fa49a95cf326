pub mod Labels
pub mod LabelsText
