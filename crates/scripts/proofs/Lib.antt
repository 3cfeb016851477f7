pub mod Cuts
pub mod Decimals
pub mod Distinct
pub mod Words
