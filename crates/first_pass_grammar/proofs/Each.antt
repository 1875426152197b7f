-- A property of each token, leaf block or row.
pub mod EachBlock
pub mod EachLeaf
pub mod EachOpening
pub mod EachPair
pub mod EachRow
pub mod EachToken
pub mod EachCell
