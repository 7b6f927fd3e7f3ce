pub mod Laws
pub mod Listed
pub mod Orders
pub mod Rows
pub mod Served
