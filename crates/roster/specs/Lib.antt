pub mod Rostered
