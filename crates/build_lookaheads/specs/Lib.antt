pub mod StatesHeld
pub mod Passes
