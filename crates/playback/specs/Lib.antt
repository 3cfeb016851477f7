pub mod Laws
pub mod Report
pub mod Play
pub mod Steps
pub mod Runs
