pub mod Shown
pub mod Few
pub mod Snapshot
pub mod Kept
pub mod Calls
