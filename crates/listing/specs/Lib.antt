pub mod Rows
pub mod Rests
