pub mod Laws
pub mod Records
pub mod Wild
pub mod Walk
pub mod Named
pub mod Counted
pub mod Sizes
pub mod Alike
