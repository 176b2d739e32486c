pub mod Moves
pub mod Search
pub mod Lists
pub mod Live
pub mod Packed
pub mod Readers
