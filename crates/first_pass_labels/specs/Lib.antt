pub mod Foldings
pub mod LabelTables
pub mod Slots
