pub mod Beginning
pub mod Bounds
pub mod Finding
pub mod Listing
pub mod Completing
pub mod Removing
pub mod Retiring
