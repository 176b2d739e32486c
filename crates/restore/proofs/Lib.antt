pub mod Verdicts
pub mod Rosters
pub mod Laws
