pub mod Cleared
pub mod Agreed
pub mod Laws
