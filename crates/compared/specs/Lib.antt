pub mod Same
pub mod Keys
pub mod Comparing
