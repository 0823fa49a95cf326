mod Found
mod Placed
mod Sent
mod Told
