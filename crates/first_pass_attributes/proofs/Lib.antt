pub mod AttributeFacts
pub mod BlockFacts
pub mod BreakFacts
pub mod MemoryFacts
pub mod WordFacts
