pub mod LabelsAt
pub mod LinkLemmas
pub mod NameLemmas
