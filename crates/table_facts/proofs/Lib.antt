pub mod Sound
pub mod Actions
pub mod Blocks
pub mod Kernels
pub mod Entries
pub mod Lines
pub mod Parts
