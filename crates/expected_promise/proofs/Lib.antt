pub mod TrialLaws
pub mod TriedLaws
pub mod EndLaws
pub mod Promise
