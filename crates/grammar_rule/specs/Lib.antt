pub mod Parts
pub mod Marks
pub mod RuleLine
pub mod Progress
pub mod Memory
