pub mod Doubts
pub mod Warnings
pub mod Lines
pub mod Asking
pub mod Values
