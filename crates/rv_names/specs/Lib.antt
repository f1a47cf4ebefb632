pub mod Registers
pub mod Numbers
pub mod Mnemonics
pub mod Operands
pub mod Shown
pub mod Text
pub mod Statements
pub mod Line
