pub mod Lines
pub mod Rest
pub mod Places
pub mod Plain
pub mod Lanes
pub mod Samples
