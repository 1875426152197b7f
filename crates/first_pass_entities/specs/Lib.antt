pub mod Entities
pub mod Texts
