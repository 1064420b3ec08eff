pub mod Actions
pub mod Book
pub mod Line
pub mod Kernels
pub mod Entries
pub mod Block
