pub mod Entries
pub mod Memory
