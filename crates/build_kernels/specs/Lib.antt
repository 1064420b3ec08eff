pub mod Exploring
pub mod Lines
pub mod Discovered
