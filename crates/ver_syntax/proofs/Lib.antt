pub mod MoveLemmas
pub mod TableLemmas
pub mod FaultLemmas
pub mod ReadLemmas
pub mod RowLemmas
pub mod LawLemmas
pub mod PlaceLemmas
pub mod KindLemmas
mod PhraseLemmas
