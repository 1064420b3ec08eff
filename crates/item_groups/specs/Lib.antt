pub mod Groups
pub mod Uses
