pub mod CoreState
pub mod Inner
pub mod Driving
pub mod Passed
pub mod Faults
