pub mod Runs
pub mod Skips
pub mod Steps
pub mod Within
