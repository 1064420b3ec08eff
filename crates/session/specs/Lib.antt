pub mod Session
pub mod Read
pub mod Demand3
