pub mod Sound
pub mod SoundRows
pub mod SoundSteps
pub mod Stops
