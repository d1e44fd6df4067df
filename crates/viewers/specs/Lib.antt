pub mod Viewers
pub mod Serving
