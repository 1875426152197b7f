-- A text has at most one derivation.
pub mod Alike
pub mod BlocksAlike
pub mod ChainsAlike
pub mod LinesAlike
pub mod RowsAlike
pub mod TablesAlike
pub mod Unique
