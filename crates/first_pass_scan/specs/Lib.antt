pub mod Blanks
pub mod LeafLines
pub mod Markers
pub mod Metadata
pub mod MetadataSearch
pub mod Pipes
pub mod TableHead
