pub mod Merged
pub mod Records
pub mod Laws
