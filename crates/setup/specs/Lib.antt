pub mod Setup
pub mod Seeding
