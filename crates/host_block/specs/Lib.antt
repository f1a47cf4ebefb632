pub mod Changes
pub mod Known
pub mod Positions
pub mod Slots
pub mod Ordered
pub mod Hosts
