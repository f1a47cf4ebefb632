pub mod Again
pub mod AtMost
pub mod CallsLeft
mod Chains
mod Conflicts
mod Held
pub mod Kept
pub mod Lines
mod Migrated
mod OpenFiles
pub mod Orders
pub mod ProgramFiles
pub mod Shares
pub mod ShortNames
pub mod SameFiles
mod Told
