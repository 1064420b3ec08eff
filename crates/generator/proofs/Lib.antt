pub mod AnswerLaws
pub mod PutLaws
pub mod ForestLaws
pub mod NodeLaws
pub mod RowLaws
pub mod LoadLaws
