pub mod Collar
pub mod Meter
pub mod Throttle
pub mod Claims
