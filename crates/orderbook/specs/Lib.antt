pub mod Codes
pub mod Types
