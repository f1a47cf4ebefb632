pub mod Changing
pub mod Answering
pub mod Settling
pub mod Serials
pub mod Positions
pub mod Slots
pub mod InOrder
pub mod Hosts
