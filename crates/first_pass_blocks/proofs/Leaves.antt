-- How leaf blocks are read and added.
pub mod KindBlocks
pub mod TextLemmas
pub mod TextsAre
