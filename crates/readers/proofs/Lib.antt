pub mod Laws
pub mod Walk
pub mod Readers
pub mod Stored
