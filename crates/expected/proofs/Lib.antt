pub mod PlaceLaws
pub mod ListLaws
