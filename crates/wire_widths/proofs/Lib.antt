pub mod WideLoadLemmas
pub mod WidePartLemmas
pub mod WideSpliceLemmas
pub mod WideCoverLemmas
mod Example
pub mod StillLemmas
pub mod WideTurnLemmas
pub mod WideWordLemmas
pub mod WideBoundLemmas
pub mod WideSmallLemmas
pub mod WideSolutionLemmas
pub mod PlainLemmas
