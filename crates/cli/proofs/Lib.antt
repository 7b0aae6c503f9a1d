mod Asked
mod Sessions
mod Sizes
