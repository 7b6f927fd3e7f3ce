pub mod Common
pub mod Faults
pub mod Format
pub mod Tails
