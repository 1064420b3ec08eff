pub mod Kernels
pub mod Memory
