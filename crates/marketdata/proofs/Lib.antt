pub mod Steps
pub mod Resting
pub mod Rests
pub mod Places
pub mod Laws
pub mod Events
pub mod AtLevel
