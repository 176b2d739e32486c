pub mod Starts
pub mod Opening
