pub mod Parts
pub mod Contents
