pub mod Alone
pub mod Saying
pub mod Judging
pub mod Taking
