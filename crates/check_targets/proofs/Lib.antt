pub mod ArriveLaws
pub mod MeetLaws
pub mod FaultLaws
