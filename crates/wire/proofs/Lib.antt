mod Prelude
pub mod Fronts
pub mod FieldLemmas
pub mod Lengths
pub mod Appended
pub mod Wholes
pub mod Heads
pub mod Buffers
pub mod Found
pub mod Streams
pub mod Advances
pub mod Handed
