pub mod Replay
pub mod ReplayMoment
pub mod Further
pub mod Faults
pub mod Command
pub mod More
pub mod Session
pub mod Hearing
