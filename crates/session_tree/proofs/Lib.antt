pub mod Causes
pub mod Rows
pub mod Sought
pub mod Tries
