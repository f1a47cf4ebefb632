pub mod Durable
pub mod Keeping
pub mod Opened
pub mod Resumed
pub mod Settled
