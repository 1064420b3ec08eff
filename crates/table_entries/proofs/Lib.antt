pub mod StringLaws
pub mod RowLaws
pub mod JudgeLaws
pub mod MemoryLaws
pub mod CapLaws
pub mod OrderLaws
pub mod NextLaws
