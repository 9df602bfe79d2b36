pub mod Answering
pub mod Tables
pub mod Packs
pub mod Joins
