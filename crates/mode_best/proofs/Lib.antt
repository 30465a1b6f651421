pub mod BestLemmas
pub mod CertLemmas
pub mod AnswerLemmas
pub mod ApartLemmas
