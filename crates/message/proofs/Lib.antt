pub mod Bounced
pub mod Acts
pub mod Possible
