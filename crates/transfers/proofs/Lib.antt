pub mod Told
mod Owing
