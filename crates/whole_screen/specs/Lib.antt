pub mod Screen
pub mod Call
pub mod Shown
pub mod Smooth
pub mod Fresh
pub mod Inner
