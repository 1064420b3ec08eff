pub mod File
pub mod Read
pub mod Promise
pub mod Renamed
