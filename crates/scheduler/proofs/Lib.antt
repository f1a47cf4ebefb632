pub mod Answers
pub mod Awaited
pub mod Cases
pub mod Counted
pub mod KeyRoom
pub mod Keys
pub mod Seen
