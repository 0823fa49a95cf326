pub mod Examples
pub mod RowLemmas
