pub mod Expansion
pub mod Prepared
pub mod Kernel
pub mod Steps
pub mod InMemory
