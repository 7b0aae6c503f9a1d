pub mod Asked
pub mod Reading
pub mod Sessions
pub mod Answers
pub mod Sizes
