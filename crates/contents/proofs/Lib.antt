pub mod Writing
pub mod Order
pub mod Gaps
