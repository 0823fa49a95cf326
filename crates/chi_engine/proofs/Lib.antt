pub mod Policies
mod Picked
mod Passed
