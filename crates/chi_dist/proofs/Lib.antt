mod Between
mod ExponentialOrder
mod ExponentialRows
mod Kept
mod Leading
mod Logarithm
mod Period
mod Rows
mod Sampled
pub mod SampledLaws
mod Successes
