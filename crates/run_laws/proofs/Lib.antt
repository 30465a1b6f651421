pub mod RetimeLemmas
pub mod CertLemmas
