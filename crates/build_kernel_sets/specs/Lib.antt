pub mod Sets
pub mod Cells
pub mod Leaving
