pub mod Expected
pub mod Read
