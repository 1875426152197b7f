-- The definitions that the contracts of this crate use.
pub mod Appends
pub mod RowsRead
pub mod Reading
