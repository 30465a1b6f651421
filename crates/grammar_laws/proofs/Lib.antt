pub mod PartLemmas
pub mod LeadLemmas
pub mod FrontLemmas
pub mod WayLemmas
pub mod MachineLemmas
pub mod LawLemmas
