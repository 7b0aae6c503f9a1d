pub mod Wanted
pub mod Paging
pub mod Owners
pub mod Walking
