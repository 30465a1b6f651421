pub mod ListLemmas
pub mod LawLemmas
pub mod SpanLemmas
pub mod LeadLemmas
pub mod AddLemmas
pub mod GraphLemmas
pub mod EndLemmas
