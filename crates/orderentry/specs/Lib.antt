pub mod OrderEntry
