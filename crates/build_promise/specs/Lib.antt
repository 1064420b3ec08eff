pub mod Kernels
pub mod Promise
