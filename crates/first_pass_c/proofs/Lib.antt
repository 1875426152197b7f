pub mod Appending
pub mod Sides
pub mod Nexts
pub mod Filling
pub mod Bodies
pub mod FlatRead
mod Bits
mod Counts
mod Ranges
mod Readings
