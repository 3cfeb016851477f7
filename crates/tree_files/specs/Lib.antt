pub mod Verdict
pub mod Write
pub mod Laws
