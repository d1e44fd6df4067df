pub mod Laws
pub mod Cell
pub mod Words
