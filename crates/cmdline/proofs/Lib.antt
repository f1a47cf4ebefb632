pub mod Numbers
pub mod Operands
pub mod Lines
pub mod Rows
pub mod Steps
pub mod TypedLines
