pub mod Narrow
pub mod Memory
pub mod Sources
