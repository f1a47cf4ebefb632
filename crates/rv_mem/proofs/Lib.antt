mod Each
mod Flat
mod Copied
mod InputPage
mod Placed
mod Pools
mod Calls
pub mod PageOfCode
pub mod ProgramCode
