pub mod HeadingValues
pub mod Printed
pub mod Visible
pub mod ReferenceLines
pub mod Pairs
