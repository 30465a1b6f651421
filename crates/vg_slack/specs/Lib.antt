pub mod Waits
pub mod Climbs
pub mod Bounds
pub mod Roots
pub mod Bests
pub mod Kept
pub mod Choices
