pub mod Changed
pub mod Seen
pub mod Stored
pub mod Judged
