pub mod Record
pub mod Alike
pub mod Inner
