pub mod Faults
pub mod Entries
pub mod Orders
