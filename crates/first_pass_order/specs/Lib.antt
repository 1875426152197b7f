pub mod Footnotes
pub mod LeafBlocks
pub mod Ordered
pub mod Settled
