pub mod Normal
pub mod Shown
pub mod Content
pub mod ReadFaults
pub mod Database
