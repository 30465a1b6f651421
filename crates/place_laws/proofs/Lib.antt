pub mod PutLemmas
pub mod RetimeLemmas
