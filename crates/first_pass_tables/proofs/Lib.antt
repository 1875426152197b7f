-- The lemmas of this crate.
pub mod CellsFit
pub mod RowPlaces
pub mod BodySoFar
pub mod BodyLemmas
pub mod RowsFit
pub mod RowsAdded
pub mod TableFits
pub mod RowCells
pub mod RowClosed
pub mod RowDrops
pub mod WholeRows
pub mod RowBytes
