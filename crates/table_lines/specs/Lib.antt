pub mod Line
pub mod Tally
pub mod Image
pub mod Block
