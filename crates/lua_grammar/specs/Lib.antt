pub mod Lexeme
pub mod Grammar
pub mod Table
pub mod Parts
pub mod Machine
pub mod Faults
pub mod Reading
