pub mod Flat
pub mod Inlines
pub mod Labels
pub mod Look
pub mod Marks
pub mod Open
pub mod Readable
pub mod Sequences
