pub mod Serving
pub mod Writing
pub mod Asking
