pub mod Programs
pub mod Once
pub mod Changes
mod Outcomes
