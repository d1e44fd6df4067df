pub mod Index
pub mod Changes
pub mod Writing
pub mod Numbers
pub mod Walk
pub mod Outcome
pub mod Meaning
pub mod True
