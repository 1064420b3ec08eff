pub mod Line
pub mod Tokens
pub mod Within
