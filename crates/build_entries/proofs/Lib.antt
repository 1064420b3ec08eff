pub mod NumberLaws
pub mod StoreLaws
pub mod GroupLaws
pub mod ListLaws
pub mod HoldsLaws
