pub mod Closing
pub mod Titles
