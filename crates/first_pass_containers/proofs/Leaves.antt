-- How leaf blocks are added to a ready state.
pub mod FirstItems
pub mod LeafLemmas
