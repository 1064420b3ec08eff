pub mod Chain
pub mod Promise
