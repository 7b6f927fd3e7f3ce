pub mod Routine
pub mod Valid
