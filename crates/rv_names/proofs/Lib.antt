pub mod InRange
pub mod Names
pub mod Digits
