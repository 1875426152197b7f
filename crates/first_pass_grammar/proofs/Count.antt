-- The number of counted nodes, and of inserted cells.
pub mod CountedNodes
pub mod RowsWithRoom
