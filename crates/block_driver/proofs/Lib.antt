pub mod Ends
pub mod Leads
pub mod RunSteps
pub mod Stepped
