pub mod Targets
pub mod Faults
