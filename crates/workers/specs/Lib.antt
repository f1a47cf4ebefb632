pub mod Book
pub mod Faults
pub mod Settle
pub mod History
pub mod Run
pub mod Chain
pub mod DoneCell
pub mod Work
