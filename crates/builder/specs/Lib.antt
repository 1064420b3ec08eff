pub mod Build
pub mod Accepted
