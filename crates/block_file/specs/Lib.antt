pub mod Answer
pub mod Line
pub mod Block
pub mod Migrate
pub mod Reader
pub mod Schedule
pub mod Faults
