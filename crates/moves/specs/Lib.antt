pub mod Moves
pub mod Flags
