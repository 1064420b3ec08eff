pub mod Strings
pub mod States
pub mod Lookaheads
