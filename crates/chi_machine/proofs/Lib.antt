mod Listed
pub mod Helds
mod Standings
mod Crowded
mod Resumed
mod Ran
mod Locally
mod Meetings
pub mod Timed
pub mod Turning
mod Advancing
mod Answers
mod Placed
mod Added
mod GoneOn
mod Rested
mod Stepped
pub mod Turned
mod Coursed
mod Begins
mod Called
