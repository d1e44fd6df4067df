pub mod Laws
pub mod Marks
