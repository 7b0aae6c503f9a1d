pub mod Regions
pub mod InUse
pub mod Files
pub mod Drafts
