pub mod Built
pub mod Text
pub mod Book
pub mod Builder
