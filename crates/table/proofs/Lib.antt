pub mod ReadLaws
pub mod IntoLaws
