pub mod Listing
pub mod Raising
pub mod Skipping
pub mod Loading
pub mod Progressing
pub mod Charting
