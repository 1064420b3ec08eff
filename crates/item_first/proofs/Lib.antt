pub mod FirstLaws
pub mod CarryLaws
