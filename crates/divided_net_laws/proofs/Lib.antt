pub mod RenumberedNetLemmas
pub mod ChoiceLemmas
pub mod PartLemmas
pub mod LinkLemmas
pub mod ChainLemmas
pub mod DownLemmas
pub mod DividedTreeLemmas
pub mod JoinedLemmas
