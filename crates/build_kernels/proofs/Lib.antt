pub mod SeedLaws
pub mod ExploreLaws
pub mod LineLaws
pub mod FoundLaws
pub mod ItemLines
