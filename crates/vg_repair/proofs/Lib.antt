pub mod RepairLemmas
pub mod PickLemmas
pub mod RestoredLemmas
pub mod SearchLemmas
