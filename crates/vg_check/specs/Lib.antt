pub mod Verdicts
pub mod Covers
pub mod Hulls
pub mod Orders
pub mod Parts
