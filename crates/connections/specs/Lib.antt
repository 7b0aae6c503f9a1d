pub mod Backlog
pub mod Messages
pub mod Waiting
