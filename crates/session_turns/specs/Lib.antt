pub mod Failures
pub mod Programs
pub mod Replies
pub mod Telling
pub mod Turn
pub mod Stages
pub mod Pending
pub mod Ready
