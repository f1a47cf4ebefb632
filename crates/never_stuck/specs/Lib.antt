pub mod Ending
pub mod Far
pub mod Stuck
pub mod Astray
