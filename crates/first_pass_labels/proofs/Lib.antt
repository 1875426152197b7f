pub mod FirstOfEach
pub mod FoldingLemmas
pub mod FrontLemmas
pub mod OrderLemmas
pub mod PlaceLemmas
pub mod SortedLemmas
pub mod TableLemmas
pub mod TextOrder
