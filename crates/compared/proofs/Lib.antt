pub mod Paired
pub mod ReadCalls
pub mod KeyLists
pub mod KeyCalls
pub mod Comparisons
pub mod Represented
pub mod Whole
