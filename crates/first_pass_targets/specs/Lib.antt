pub mod Parts
pub mod Targets
pub mod InlineLabels
pub mod Keys
pub mod Indices
