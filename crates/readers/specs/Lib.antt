pub mod Readers
pub mod Stored
pub mod Inner
