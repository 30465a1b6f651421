pub mod Repairs
pub mod RepairLaws
pub mod Picks
