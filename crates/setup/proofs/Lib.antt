pub mod Earliest
pub mod Numbers
pub mod Judged
pub mod Seeded
pub mod Agreed
pub mod Began
