pub mod RowLaws
pub mod TransferLaws
pub mod RuleSets
pub mod AddLaws
pub mod FirstLaws
pub mod Decided
