-- The lines and places of a sequence of blocks.
pub mod AfterMarkers
pub mod Finishes
pub mod FootnoteHeads
pub mod Goings
pub mod LinesLeft
pub mod OpenerFacts
pub mod PlacesKept
pub mod PrefixBytes
pub mod Tightening
