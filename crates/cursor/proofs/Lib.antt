mod Prelude
pub mod Joined
pub mod Ending
pub mod Parted
pub mod Walked
pub mod Read
