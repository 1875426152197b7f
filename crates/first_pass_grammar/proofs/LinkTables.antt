-- The tables of links and footnotes have the first definition of each label.
pub mod FirstLinks
