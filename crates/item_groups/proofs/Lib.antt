pub mod StringLaws
pub mod GroupLaws
pub mod UseLaws
