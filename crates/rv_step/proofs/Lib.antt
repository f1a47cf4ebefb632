pub mod Kept
mod PageSteps
mod ProgramSteps
mod Named
mod Refused
pub mod Falls
pub mod Moments
pub mod Beginnings
pub mod Receipts
pub mod Askings
pub mod Charged
pub mod Steps
pub mod Reached
pub mod Stops
pub mod Walks
pub mod StorageRuns
pub mod WriteLimit
pub mod CallsInOrder
