pub mod Attributes
pub mod Cell
pub mod Shading
pub mod Inner
