pub mod Accepts
pub mod Faults
pub mod Given
