mod Deciding
pub mod Equal
pub mod Codes
