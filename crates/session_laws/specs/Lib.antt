pub mod Begun
pub mod Chained
