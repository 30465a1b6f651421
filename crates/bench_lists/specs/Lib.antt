pub mod Turns
pub mod Branches
pub mod Additions
