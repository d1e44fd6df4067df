pub mod Laws
pub mod Lengths
pub mod Told
