pub mod Numbering
pub mod Batches
pub mod Departures
