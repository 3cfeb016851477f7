pub mod Fronts
pub mod Peeling
pub mod Appending
pub mod Chunks
