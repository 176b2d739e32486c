pub mod Totals
pub mod Weighing
pub mod Judging
pub mod Applying
pub mod Laws
