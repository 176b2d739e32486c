pub mod Script
pub mod Strict
pub mod Records
