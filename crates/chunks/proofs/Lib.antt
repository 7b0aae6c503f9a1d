pub mod Cutting
pub mod Poured
pub mod Joined
