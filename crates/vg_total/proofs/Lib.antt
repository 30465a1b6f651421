pub mod TotalLemmas
pub mod SweepLemmas
pub mod PickLemmas
pub mod TurnLemmas
pub mod LawLemmas
