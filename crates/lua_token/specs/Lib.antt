pub mod Characters
pub mod Names
pub mod Numerals
pub mod Escapes
pub mod Strings
pub mod Signs
pub mod Front
pub mod Spells
