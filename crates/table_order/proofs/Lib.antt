pub mod OrderLaws
pub mod KeyLaws
pub mod LastLaws
pub mod UseLaws
