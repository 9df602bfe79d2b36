pub mod Levels
pub mod Pending
pub mod Skips
pub mod Marking
pub mod Progress
pub mod Surveyed
