pub mod ExactLaws
pub mod OrderLaws
pub mod CapLaws
