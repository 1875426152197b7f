pub mod BlockStart
pub mod Marks
pub mod Fronts
pub mod Memory
pub mod NextLines
pub mod Rests
pub mod TableHeads
