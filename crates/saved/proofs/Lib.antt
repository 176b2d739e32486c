pub mod Offsets
pub mod Decoded
pub mod Rising
pub mod Laws
