pub mod Wallets
pub mod Placing
pub mod Noticing
pub mod Laws
