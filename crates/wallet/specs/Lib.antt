pub mod Wallet
