pub mod BlockRead
pub mod Common
pub mod FootnoteLabels
pub mod FootnoteOpened
pub mod Leaves
pub mod LinkDefinitions
pub mod OpenedContainer
pub mod TriedFootnote
