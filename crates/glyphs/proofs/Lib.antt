pub mod Scans
pub mod Glyphs
