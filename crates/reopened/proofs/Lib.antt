pub mod Cleared
pub mod Started
pub mod Stopped
