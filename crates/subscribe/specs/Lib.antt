pub mod Subscribe
