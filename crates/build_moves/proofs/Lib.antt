pub mod NumberLaws
pub mod PickLaws
pub mod MovedLaws
pub mod HasLaws
