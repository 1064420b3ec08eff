pub mod AskLaws
pub mod AskedLaws
