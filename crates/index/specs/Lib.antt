pub mod Index
pub mod Store
pub mod Meaning
pub mod True
pub mod Inner
pub mod Twice
