pub mod Capped
pub mod Days
pub mod Digits
pub mod Splits
pub mod Wholes
