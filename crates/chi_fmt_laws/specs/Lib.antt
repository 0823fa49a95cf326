pub mod CheckedAlike
