pub mod TextLaws
pub mod LineLaws
pub mod RepeatLaws
pub mod JudgeLaws
