pub mod Indexes
pub mod MeasuredBlocks
pub mod MeasuredParts
pub mod MeasuredStatements
pub mod Measures
