mod Entries
mod Given
mod Indexing
mod Numbers
mod Unjoined
