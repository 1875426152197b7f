pub mod EntityFacts
pub mod Numbers
