pub mod Glyphs
pub mod Scans
