pub mod Laws
pub mod Filled
pub mod Pairs
pub mod Rows
pub mod Alike
pub mod Record
