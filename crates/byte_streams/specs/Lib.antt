pub mod Written
pub mod Faults
pub mod Refusals
