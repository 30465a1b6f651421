pub mod CapLemmas
pub mod LinkLemmas
pub mod PlaceLemmas
pub mod SearchLemmas
pub mod JoinLemmas
pub mod PigeonholeLemmas
pub mod TreeLemmas
pub mod OneTreeLemmas
