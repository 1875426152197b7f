pub mod PartFacts
pub mod DestinationFacts
pub mod SpellingFacts
pub mod IndexFacts
