pub mod Placed
pub mod RunLists
pub mod Growth
pub mod ContentSteps
pub mod Pieces
pub mod ChainPieces
pub mod WholeRanges
pub mod WholeTokens
