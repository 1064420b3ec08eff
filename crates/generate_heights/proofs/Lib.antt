pub mod RowLaws
pub mod SymbolLaws
pub mod ShortestLaws
pub mod RoundLaws
