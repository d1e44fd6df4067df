pub mod Laws
pub mod Cells
pub mod Line
