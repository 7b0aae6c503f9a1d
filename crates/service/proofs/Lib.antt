mod Prelude
pub mod Judged
pub mod Messages
pub mod Whole
pub mod Sent
pub mod Answered
pub mod Deferred
pub mod Serving
pub mod Plans
pub mod Responses
pub mod Bodies
pub mod Bounded
pub mod Uploads
