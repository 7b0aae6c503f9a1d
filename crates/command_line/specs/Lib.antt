pub mod Numbers
pub mod Flags
pub mod Asking
pub mod Ranges
pub mod Words
