pub mod PassLaws
pub mod TableLaws
pub mod LookLaws
pub mod FindLaws
