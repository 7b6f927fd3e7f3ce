pub mod Scope
pub mod Walk
pub mod Branches
pub mod Scoped
pub mod Worked
