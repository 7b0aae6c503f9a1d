pub mod Downloads
