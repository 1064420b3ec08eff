pub mod Stray
