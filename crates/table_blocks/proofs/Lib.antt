pub mod LengthLaws
pub mod BlankLaws
pub mod ReadLaws
pub mod BlocksLaws
