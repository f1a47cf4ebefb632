pub mod Items
pub mod Origin
pub mod Source
