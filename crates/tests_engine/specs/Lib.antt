pub mod Found
pub mod Ready
pub mod Rows
