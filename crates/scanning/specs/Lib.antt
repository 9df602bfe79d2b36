pub mod Firsts
pub mod Definitions
