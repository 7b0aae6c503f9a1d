pub mod Clocks
pub mod Framing
pub mod Observations
pub mod Calls
pub mod Policies
