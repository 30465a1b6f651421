pub mod RepairLemmas
pub mod TotalLemmas
pub mod WidthLemmas
pub mod HeadlineLemmas
