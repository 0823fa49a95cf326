mod Placing
mod Telling
mod Rows
