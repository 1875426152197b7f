pub mod ListKinds
pub mod MovedLemmas
pub mod WithinLemmas
pub mod BlankLemmas
pub mod NoEmptyItem
