pub mod HeldLaws
pub mod CellLaws
pub mod TableLaws
