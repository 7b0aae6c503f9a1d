pub mod Rows
pub mod Queries
pub mod Transactions
