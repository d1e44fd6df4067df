pub mod Laws
pub mod Walk
pub mod Outcome
pub mod Changes
pub mod True
