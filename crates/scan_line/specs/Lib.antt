pub mod Line
pub mod Call
pub mod Inner
