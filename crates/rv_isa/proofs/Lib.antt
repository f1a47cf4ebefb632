pub mod Same
mod Signs
mod Bits
mod Slots
pub mod Again
