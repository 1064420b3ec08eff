pub mod Checked
pub mod Exactly
pub mod Loaded
