pub mod Names
pub mod Halves
pub mod Tied
pub mod Answers
