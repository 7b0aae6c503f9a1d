mod Commands
mod Connections
pub mod Leading
mod Jobs
mod Swept
mod Inspected
mod Growing
mod Numbers
