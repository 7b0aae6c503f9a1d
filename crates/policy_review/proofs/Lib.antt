mod Prelude
pub mod Lists
