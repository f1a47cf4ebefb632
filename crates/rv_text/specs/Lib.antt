pub mod Back
pub mod Assembly
pub mod Shown
pub mod Fits
pub mod Layout
pub mod Answer
pub mod Faults
