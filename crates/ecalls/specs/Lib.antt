pub mod StorageCalls
