pub mod Adding
pub mod OpenedFootnotes
pub mod Progress
pub mod Runs
pub mod Titles
pub mod Views
pub mod Written
