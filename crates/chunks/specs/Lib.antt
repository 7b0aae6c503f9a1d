pub mod Intakes
pub mod Pouring
