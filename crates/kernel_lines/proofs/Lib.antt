pub mod LinkLaws
pub mod HeldLaws
