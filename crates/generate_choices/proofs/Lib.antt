pub mod ProductLaws
pub mod ChoiceLaws
pub mod StoredLaws
