pub mod Tests
pub mod Order
pub mod Parts
pub mod Maps
pub mod Told
