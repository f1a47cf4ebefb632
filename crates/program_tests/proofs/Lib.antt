pub mod KnownStores
