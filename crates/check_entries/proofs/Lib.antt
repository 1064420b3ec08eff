pub mod PartLaws
pub mod FaultLaws
pub mod FillLaws
pub mod ListLaws
