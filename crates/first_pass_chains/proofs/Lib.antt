pub mod Backslashes
pub mod NodeChains
pub mod RowChains
pub mod TextChains
pub mod TableChains
pub mod LeafChains
pub mod SequenceChains
