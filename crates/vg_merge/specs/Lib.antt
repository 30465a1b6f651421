pub mod Branches
pub mod Merges
