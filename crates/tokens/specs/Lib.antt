pub mod Bearers
pub mod Callers
pub mod Holding
pub mod Issuing
pub mod Pruning
