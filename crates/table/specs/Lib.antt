pub mod Book
pub mod Memory
