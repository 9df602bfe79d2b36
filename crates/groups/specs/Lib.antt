pub mod Packing
pub mod Groups
pub mod Answers
pub mod Hands
