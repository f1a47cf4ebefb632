pub mod Text
pub mod Buffer
pub mod Ranges
pub mod Brief
