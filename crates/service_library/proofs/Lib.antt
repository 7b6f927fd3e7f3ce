pub mod Choices
pub mod Ready
pub mod Held
pub mod Together
pub mod Idle
pub mod Sleeping
pub mod Order
