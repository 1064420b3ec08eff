pub mod Parts
pub mod Faults
pub mod Uses
