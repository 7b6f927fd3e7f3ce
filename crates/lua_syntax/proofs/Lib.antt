pub mod OneReading
pub mod ParseLemmas
