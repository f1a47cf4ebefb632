pub mod Estimates
pub mod InMap
