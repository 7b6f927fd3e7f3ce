pub mod Stack
pub mod Turns
pub mod Verdicts
pub mod Answers
