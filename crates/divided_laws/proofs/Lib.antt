pub mod SumByOwnerLemmas
pub mod ChainLemmas
pub mod DividedLoadLemmas
pub mod DividedDelayLemmas
pub mod DividedPathLemmas
pub mod DividedTotalLemmas
pub mod DividedSlackLemmas
pub mod LoadedLemmas
mod Example
