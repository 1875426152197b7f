pub mod AttributeBlocks
pub mod Attributes
pub mod ShortLists
