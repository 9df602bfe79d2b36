pub mod Kinds
pub mod Cases
