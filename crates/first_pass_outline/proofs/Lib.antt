mod HeadingRows
pub mod HeadingTexts
pub mod Nestings
mod OrderedEntries
mod Outlines
pub mod TitleSteps
pub mod Written
