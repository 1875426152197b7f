pub mod JsonLines
pub mod JsonValues
pub mod Members
pub mod Page
pub mod PlacedRanges
pub mod Scripts
