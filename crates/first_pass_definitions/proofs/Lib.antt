pub mod OptionFacts
pub mod Titles
pub mod Spaces
pub mod Targets
pub mod Asks
pub mod ReferenceFacts
