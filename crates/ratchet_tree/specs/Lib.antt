pub mod Nodes
pub mod Parts
pub mod Trees
pub mod Keys
pub mod Add
pub mod Seats
