pub mod TiedLemmas
pub mod Crossing
