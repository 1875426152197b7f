pub mod RawBlocks
pub mod Appends
pub mod CutTexts
pub mod LineBreaks
pub mod PlainHeadings
