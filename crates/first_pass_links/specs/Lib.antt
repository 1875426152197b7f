pub mod Changes
pub mod Destinations
pub mod Escapes
pub mod Footnotes
pub mod Labels
pub mod Plain
pub mod Runs
pub mod Units
