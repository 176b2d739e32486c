pub mod Judging
pub mod Told
pub mod Entered
