pub mod Generated
pub mod Written
