pub mod MoveLaws
pub mod RowLaws
pub mod HeldLaws
pub mod NextLaws
