pub mod Given
pub mod Commands
pub mod Jobs
pub mod Numbers
