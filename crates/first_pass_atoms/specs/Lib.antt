pub mod Blanks
pub mod Autolinks
pub mod TagLengths
pub mod RawHtml
pub mod HtmlEnds
pub mod CodeText
pub mod TokenEnds
pub mod NextTokens
