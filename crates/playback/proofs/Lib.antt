pub mod Distinct
pub mod Nodes
pub mod Writing
pub mod Steps
pub mod Once
pub mod Runs
