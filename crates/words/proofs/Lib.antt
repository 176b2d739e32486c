pub mod Diff
pub mod Int
pub mod Fit
pub mod Product
pub mod Laws
pub mod Wrap
