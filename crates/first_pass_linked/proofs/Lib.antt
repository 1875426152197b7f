pub mod BlockLines
pub mod Entries
pub mod MarkLines
pub mod Reports
pub mod Spelling
