pub mod Calls
pub mod Faults
pub mod Files
pub mod Named
pub mod Pages
pub mod Reports
pub mod Timed
