pub mod Fills
pub mod Calls
