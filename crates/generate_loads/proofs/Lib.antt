pub mod RuleLaws
pub mod HeightLaws
pub mod GrownLaws
pub mod Lowest
