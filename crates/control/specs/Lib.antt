pub mod Fields
pub mod Versions
pub mod Requests
pub mod Replies
