pub mod Files
pub mod Flows
