pub mod CapLaws
pub mod JudgeLaws
pub mod MemoryLaws
pub mod NextLaws
pub mod ReadLaws
