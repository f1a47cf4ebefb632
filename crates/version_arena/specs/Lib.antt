pub mod ArenaState
pub mod Chunks
pub mod Faults
pub mod Lent
pub mod Ownership
pub mod StoredRecords
