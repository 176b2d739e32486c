pub mod Live
pub mod Table
