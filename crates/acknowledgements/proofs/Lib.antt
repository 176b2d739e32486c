pub mod Stills
pub mod Refusing
