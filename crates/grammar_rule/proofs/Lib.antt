pub mod SeenLaws
pub mod TrackLaws
pub mod KeepLaws
pub mod ReadLaws
pub mod LineLaws
pub mod FormLaws
pub mod MarkLaws
pub mod BudgetLaws
