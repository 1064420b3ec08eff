pub mod Strings
pub mod Derives
pub mod Reaches
pub mod Reduced
pub mod InMemory
