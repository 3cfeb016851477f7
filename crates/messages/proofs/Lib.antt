mod Peeling
mod Missing
pub mod Reading
mod Writing
pub mod Members
mod Nodes
mod Growing
pub mod Filing
pub mod PathKeys
pub mod Taking
pub mod Letters
pub mod Fitting
pub mod Delivery
pub mod Composing
pub mod Running
