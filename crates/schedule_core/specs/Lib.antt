pub mod Turns
pub mod Levels
pub mod Steps
pub mod Laws
pub mod Cores
