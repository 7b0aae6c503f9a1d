mod Prelude
pub mod Calling
pub mod Visible
pub mod Listed
pub mod Kept
pub mod Digits
