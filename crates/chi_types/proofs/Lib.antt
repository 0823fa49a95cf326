pub mod Depths
pub mod FitsLaws
pub mod SameLaws
pub mod Served
pub mod ServedLaws
