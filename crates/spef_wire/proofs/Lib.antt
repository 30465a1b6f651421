pub mod AnswerLemmas
pub mod EndLemmas
pub mod NamedLemmas
pub mod PassLemmas
pub mod OneRefusalLemmas
pub mod RefusedLemmas
pub mod SinkLemmas
pub mod WireLemmas
