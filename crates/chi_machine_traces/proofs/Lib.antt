mod Answered
mod Showing
mod Logged
mod Steps
mod Turns
mod Fronts
mod Running
mod Begins
