pub mod Sorted
pub mod Moved
pub mod Steps
pub mod Alone
