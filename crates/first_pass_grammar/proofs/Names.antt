-- What the indices of nodes name.
pub mod MoreNames
pub mod NamedItems
pub mod NoIndex
pub mod TextsMore
pub mod TextsNamed
pub mod TokensNamed
