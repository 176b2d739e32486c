pub mod Marketdata
