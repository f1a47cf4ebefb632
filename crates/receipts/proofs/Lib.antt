pub mod Buffers
pub mod Cuts
pub mod Fields
pub mod OneText
pub mod Hexed
pub mod Lanes
pub mod Words
