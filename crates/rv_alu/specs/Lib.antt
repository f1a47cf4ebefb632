pub mod Operations
pub mod Branches
pub mod Accesses
pub mod Effects
pub mod Computations
