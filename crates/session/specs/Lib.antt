pub mod Text
pub mod Start
pub mod Reply
