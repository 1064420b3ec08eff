pub mod PlaceLaws
pub mod StateLaws
pub mod LineLaws
pub mod MoveLaws
pub mod ReadLaws
pub mod MemoryLaws
