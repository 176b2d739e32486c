pub mod Chain
pub mod Claims
