pub mod Fields
pub mod Power
pub mod Settings
pub mod Watchdog
pub mod Stopped
pub mod Written
