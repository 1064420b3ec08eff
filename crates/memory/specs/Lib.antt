pub mod Memory
pub mod Fits
pub mod Held
