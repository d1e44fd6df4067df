pub mod Picture
pub mod Wild
pub mod Draw
pub mod Named
pub mod Counted
pub mod Sizes
pub mod Alike
pub mod Inner
