pub mod Number
pub mod Ranges
pub mod Format
pub mod Word
pub mod InRange
pub mod Registers
pub mod Decoding
pub mod Decoded
