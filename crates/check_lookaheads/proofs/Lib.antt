pub mod NarrowLaws
pub mod MeetLaws
pub mod BelowLaws
