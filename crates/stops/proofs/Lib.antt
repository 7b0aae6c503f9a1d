mod Prelude
mod Reached
