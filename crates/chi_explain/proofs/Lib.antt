pub mod PlaceLemmas
pub mod FaultyBytes
