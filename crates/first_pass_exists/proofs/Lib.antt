pub mod Completed
pub mod Found
pub mod KindsFound
pub mod LinesFound
pub mod OpeningsFound
pub mod RunsFound
pub mod SequencesFound
pub mod TablesFound
