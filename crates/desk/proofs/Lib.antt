mod Prelude
pub mod Making
pub mod Admitting
pub mod Verdicts
mod Viewed
pub mod Told
pub mod Releasing
pub mod Quiet
pub mod Unchanged
pub mod Showing
pub mod Arriving
pub mod Fetching
pub mod Pushing
pub mod Reading
pub mod Offering
pub mod Puts
pub mod Early
pub mod Bounded
pub mod Judging
pub mod Staying
pub mod Sliced
pub mod Foreseen
