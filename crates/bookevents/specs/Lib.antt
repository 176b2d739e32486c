pub mod BookEvents
