pub mod Exact
pub mod Compare
