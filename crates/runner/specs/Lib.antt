pub mod Logger
pub mod Scripts
pub mod Words
pub mod World
pub mod Run
