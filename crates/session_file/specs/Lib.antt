pub mod Kept
pub mod Limits
pub mod Staging
pub mod Opening
pub mod Rows
