pub mod Decimal
pub mod Laws
pub mod Line
pub mod Lines
pub mod Output
pub mod Verbs
