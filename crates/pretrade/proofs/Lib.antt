pub mod Judging
pub mod Existing
pub mod Testing
pub mod Collars
