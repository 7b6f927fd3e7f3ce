pub mod Falling
pub mod Order
