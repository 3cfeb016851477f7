pub mod Covers
pub mod Family
pub mod Leaves
pub mod Numbering
pub mod Places
pub mod Span
pub mod Steps
