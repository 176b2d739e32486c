pub mod Le
pub mod Row
pub mod Checked
