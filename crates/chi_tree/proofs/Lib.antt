pub mod Fine
pub mod ClassTokens
pub mod Made
