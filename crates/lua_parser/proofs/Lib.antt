pub mod Levels
pub mod Targets
pub mod Fed
pub mod Answer
