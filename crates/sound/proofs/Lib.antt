pub mod Kept
pub mod Totals
pub mod Waiting
pub mod Clients
pub mod Listed
