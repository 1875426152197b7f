pub mod Forms
pub mod Lines
pub mod LinkLines
pub mod Targets
