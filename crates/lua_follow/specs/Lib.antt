pub mod Spot
pub mod Takes
pub mod Memory
pub mod Kept
pub mod Stands
pub mod Follows
