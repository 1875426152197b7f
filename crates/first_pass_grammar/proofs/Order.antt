-- The order of siblings and their ranges, and the ends of table rows.
pub mod Orders
pub mod RowEnds
pub mod TableEnds
