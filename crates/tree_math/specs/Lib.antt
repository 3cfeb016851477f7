pub mod Index
pub mod Laws
pub mod Span
