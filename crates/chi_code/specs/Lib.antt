pub mod Aims
pub mod Codes
pub mod ExpressionLayout
pub mod Naming
pub mod Sizes
pub mod StatementLayout
