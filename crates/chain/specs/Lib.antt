pub mod Places
pub mod Chain
pub mod Reading
pub mod Wild
pub mod First
pub mod Alike
pub mod Page
pub mod Inner
