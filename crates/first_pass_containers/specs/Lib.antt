pub mod Completed
pub mod Entering
pub mod FootnoteHeads
pub mod Positions
pub mod Starts
pub mod TextsAdded
pub mod Titles
