pub mod CopyLaws
pub mod SharedLaws
pub mod LineLaws
pub mod OutcomeLaws
pub mod GoodLaws
