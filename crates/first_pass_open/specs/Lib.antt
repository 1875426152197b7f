pub mod Between
pub mod Path
pub mod OpenBlock
