pub mod Tests
pub mod Kernels
pub mod Views
pub mod Entries
pub mod Items
pub mod Cells
