pub mod CertifyLemmas
pub mod VerdictLemmas
pub mod TextLemmas
pub mod ShownLemmas
pub mod NameLemmas
pub mod MadeLemmas
