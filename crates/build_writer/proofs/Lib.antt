pub mod SinkLaws
pub mod TextLaws
pub mod BookLaws
pub mod BuiltOrder
pub mod InMemory
pub mod ActionLines
