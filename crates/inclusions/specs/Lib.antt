pub mod Groups
pub mod Asks
pub mod Included
