pub mod ByRules
pub mod InMemory
pub mod FirstBy
pub mod Rests
pub mod Adds
