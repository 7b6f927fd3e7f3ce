pub mod Lookups
pub mod Answering
