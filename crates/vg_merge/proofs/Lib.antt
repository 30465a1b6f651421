pub mod JoinLemmas
pub mod ListLemmas
pub mod MergingLemmas
