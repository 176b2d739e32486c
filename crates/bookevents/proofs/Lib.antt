pub mod Changing
pub mod Replenishing
pub mod Resting
