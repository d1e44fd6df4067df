pub mod Splits
pub mod Digits
pub mod Tables
pub mod Numbers
pub mod Worked
