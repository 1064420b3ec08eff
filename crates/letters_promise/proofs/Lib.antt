pub mod Book
pub mod Promise
