pub mod Totals
pub mod TotalLaws
pub mod Picks
pub mod Sweeps
pub mod Turns
