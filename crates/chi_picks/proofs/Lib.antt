mod Lines
mod Lists
mod Written
