pub mod Names
pub mod Ends
pub mod Starts
pub mod Tags
pub mod TagLengths
pub mod Fronts
