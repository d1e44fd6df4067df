pub mod Lengths
pub mod Refusals
pub mod Answer
