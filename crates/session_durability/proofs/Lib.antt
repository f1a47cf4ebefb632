pub mod FileTurns
pub mod Keeps
pub mod Openings
pub mod Pendings
pub mod Replies
pub mod Stagings
pub mod Resumes
