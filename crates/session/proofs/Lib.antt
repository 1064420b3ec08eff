pub mod TableLaws
pub mod BookLaws
pub mod Demand3
pub mod SessionLaws
