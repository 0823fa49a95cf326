pub mod NoNames
