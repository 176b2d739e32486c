pub mod Listings
pub mod Joined
pub mod Tails
pub mod Laws
