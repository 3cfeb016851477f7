pub mod Reaching
pub mod Laying
pub mod Sealing
pub mod Crowding
pub mod Counting
pub mod Halving
