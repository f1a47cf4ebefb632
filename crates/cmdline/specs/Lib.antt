pub mod Line
pub mod Typed
