pub mod Common
pub mod Leaves
pub mod Openings
pub mod OrderSteps
pub mod ReadyStates
