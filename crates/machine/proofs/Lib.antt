pub mod AgreeLaws
pub mod DriveLaws
