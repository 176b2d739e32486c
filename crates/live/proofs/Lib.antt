pub mod Accounts
pub mod Views
pub mod Money
pub mod Placed
pub mod Changes
pub mod Notices
pub mod Laws
pub mod Fits
