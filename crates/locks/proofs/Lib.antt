mod Prelude
pub mod Found
pub mod Making
pub mod Gone
