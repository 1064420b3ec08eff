pub mod CapLaws
pub mod CellLaws
pub mod JudgeLaws
pub mod MemoryLaws
pub mod NextLaws
