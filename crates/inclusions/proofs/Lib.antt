pub mod GroupLaws
pub mod RuleLaws
pub mod AskLaws
pub mod FlagLaws
pub mod IncludeLaws
