pub mod Ranges
pub mod Netlists
pub mod Names
pub mod Links
pub mod Runs
pub mod Flat
