mod Prelude
mod Escaping
pub mod Working
mod Failing
mod Granting
mod Pushed
mod Ran
mod Remotes
mod Foretold
mod Removed
mod Damaged
mod Listed
mod Aligned
mod Valid
mod Counted
mod Printed
mod Widths
mod Sound
