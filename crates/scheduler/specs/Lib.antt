pub mod Workers
pub mod Awaited
pub mod KeyRoom
pub mod Schedule
