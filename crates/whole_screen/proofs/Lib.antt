pub mod Numbers
pub mod FirstRun
pub mod ByNumber
pub mod Filling
pub mod Seeking
pub mod Shown
pub mod Smooth
pub mod Fresh
