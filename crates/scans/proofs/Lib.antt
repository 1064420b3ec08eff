pub mod RowLaws
pub mod ReadLaws
pub mod OutcomeLaws
pub mod TokenLaws
pub mod FormLaws
pub mod Promise
pub mod Renamed
