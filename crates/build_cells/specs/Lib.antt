pub mod Fill
pub mod Cells
