pub mod Flags
pub mod Sound
pub mod Ascending
pub mod Loads
pub mod Standing
pub mod Paged
pub mod Filled
