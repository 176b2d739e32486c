pub mod Messages
pub mod Placing
