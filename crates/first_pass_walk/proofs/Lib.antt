pub mod Common
pub mod StopLemmas
pub mod WalkFacts
pub mod WalkLemmas
mod AsciiFacts
pub mod FlankFacts
pub mod WordFacts
