pub mod Texts
pub mod Moments
pub mod Rules
pub mod Streams
pub mod Names
pub mod Counted
pub mod Memory
