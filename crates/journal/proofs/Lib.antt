pub mod Bodies
pub mod Languages
pub mod Numerals
pub mod Prefixes
pub mod Reading
pub mod Spellings
pub mod Steps
