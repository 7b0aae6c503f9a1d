pub mod Objects
pub mod Representation
pub mod Staging
pub mod Left
pub mod Opening
pub mod Lookup
pub mod Removal
