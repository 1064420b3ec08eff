pub mod Linked
pub mod Rows
