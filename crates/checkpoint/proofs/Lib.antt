pub mod Stores
pub mod Walks
pub mod Calls
