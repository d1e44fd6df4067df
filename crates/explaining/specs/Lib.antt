pub mod Explain
pub mod Call
pub mod Numbers
pub mod Shown
pub mod Desk
pub mod Inner
