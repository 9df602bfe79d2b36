pub mod Row
pub mod Tables
pub mod Packs
pub mod Joins
