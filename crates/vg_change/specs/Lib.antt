pub mod Taken
pub mod Named
pub mod Placed
pub mod Changes
pub mod Patches
pub mod Steps
