mod Counts
mod Telling
mod Turns
mod Once
