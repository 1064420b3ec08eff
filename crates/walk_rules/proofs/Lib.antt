pub mod RowLaws
pub mod LinkLaws
