pub mod PartLaws
pub mod SetLaws
pub mod JoinLaws
pub mod CellLaws
pub mod LeaveLaws
