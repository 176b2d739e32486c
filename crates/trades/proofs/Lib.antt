pub mod Judging
pub mod Applying
pub mod Calling
