mod Beginnings
mod Bounds
mod Building
mod Calls
pub mod Closed
mod Expressions
mod Forms
mod Joins
mod Line
mod Meetings
mod Openings
mod Operators
pub mod Parts
mod Processes
pub mod Small
mod SoundExample
mod Starts
mod Statements
mod Times
mod Trials
mod UnsoundExpressions
mod UnsoundStatements
mod ValueExamples
mod Verdicts
