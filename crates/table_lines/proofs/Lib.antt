pub mod CapLaws
pub mod TallyLaws
pub mod LineLaws
pub mod BudgetLaws
pub mod ImageLaws
pub mod BlockLaws
pub mod HeldLaws
pub mod ListLaws
