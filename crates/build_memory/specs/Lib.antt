pub mod Stages
pub mod Memory
