pub mod Mending
pub mod Store
pub mod Changes
pub mod True
pub mod Inner
