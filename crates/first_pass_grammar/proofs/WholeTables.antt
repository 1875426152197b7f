-- Tables with all their rows and cells.
pub mod FullHeads
pub mod HeadCells
pub mod TableDepths
pub mod TableMarks
pub mod TableRows
pub mod WholeBlocks
pub mod WholeForests
