pub mod Taken
pub mod Filled
pub mod Writers
