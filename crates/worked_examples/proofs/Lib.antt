pub mod Built
pub mod Starred
pub mod Computing
pub mod Laws
pub mod Expected
pub mod Loads
