pub mod Words
pub mod Texts
pub mod Meanings
pub mod Commands
pub mod Cases
