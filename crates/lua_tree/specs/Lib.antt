pub mod Source
pub mod View
