pub mod Masses
pub mod Phases
pub mod Events
