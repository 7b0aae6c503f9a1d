pub mod Finding
pub mod Creating
pub mod Removing
