pub mod AttributeFacts
pub mod EndFacts
pub mod CodeFacts
pub mod ClosingBytes
pub mod AtomEnds
pub mod NextFacts
