pub mod Block
pub mod Led
pub mod Owed
pub mod Progress
