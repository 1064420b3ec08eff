pub mod Books
pub mod Built
pub mod Starred
pub mod Expected
pub mod Loads
