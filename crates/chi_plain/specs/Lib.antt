pub mod Stage
pub mod Watching
pub mod Led
pub mod Taken
pub mod Progressing
