pub mod Machine
pub mod Table
pub mod Construction
pub mod Claim
pub mod Demand3
pub mod Resume
