pub mod Calling
pub mod Orders
pub mod Events
