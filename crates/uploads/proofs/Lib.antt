mod Prelude
pub mod Begun
pub mod Bounds
pub mod Found
pub mod Listed
pub mod Received
pub mod Sizes
pub mod Swept
pub mod Gone
