pub mod EmptyLaws
pub mod BoundLaws
