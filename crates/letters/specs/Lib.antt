pub mod Shared
pub mod Letters
pub mod Stored
