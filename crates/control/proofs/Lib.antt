pub mod Frames
pub mod Fronts
pub mod Results
pub mod Words
