pub mod Laws
pub mod Pairs
pub mod Shown
pub mod Desk
pub mod Told
