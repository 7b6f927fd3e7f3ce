pub mod Integer
pub mod Texts
pub mod Refusal
pub mod Answer
pub mod Operators
pub mod Heap
pub mod Worked
