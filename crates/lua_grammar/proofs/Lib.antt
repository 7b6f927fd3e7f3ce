pub mod Steps
pub mod Complete
pub mod Sound
pub mod Viable
pub mod Read
