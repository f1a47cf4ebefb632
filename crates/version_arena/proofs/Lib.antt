mod Chunks
mod Crosses
mod Memory
mod Sharing
mod StoredRecords
mod Walks
