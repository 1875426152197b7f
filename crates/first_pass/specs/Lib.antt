pub mod Adding
pub mod Calls
pub mod Holds
pub mod Interrupts
pub mod Kept
pub mod Lines
pub mod Results
pub mod Views
