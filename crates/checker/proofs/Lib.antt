pub mod LoadLaws
pub mod Exactly
