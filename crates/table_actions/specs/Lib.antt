pub mod Actions
pub mod Memory
