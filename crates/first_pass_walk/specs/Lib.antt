pub mod Walk
pub mod Flank
pub mod Flanking
