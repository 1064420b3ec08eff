pub mod Load
pub mod Lowest
