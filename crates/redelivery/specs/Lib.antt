pub mod Redelivery
