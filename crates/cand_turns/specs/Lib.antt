pub mod Swaps
pub mod Branches
pub mod Solved
pub mod Parts
pub mod Tooled
pub mod Celled
pub mod Widened
