pub mod Meant
pub mod Shifts
pub mod Parts
pub mod Rights
pub mod Reaching
