pub mod Choices
pub mod Stored
