pub mod Parts
pub mod Content
pub mod Chains
pub mod Tokens
pub mod Runs
pub mod Building
