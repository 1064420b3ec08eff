pub mod BookLaws
pub mod AnswerLaws
pub mod Accepted
