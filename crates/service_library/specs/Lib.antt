pub mod State
pub mod Rows
pub mod Laws
pub mod Order
