pub mod ExpressionCode
pub mod KnownGoals
pub mod PartCode
pub mod ProgramCode
pub mod StatementCode
