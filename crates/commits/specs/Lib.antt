pub mod Apply
pub mod Commits
pub mod Counts
pub mod Errors
pub mod Path
pub mod Refusals
pub mod Targets
