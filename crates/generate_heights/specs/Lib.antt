pub mod Heights
pub mod Rows
