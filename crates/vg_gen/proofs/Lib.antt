pub mod NetLemmas
pub mod LineLemmas
pub mod SizeLemmas
pub mod LawLemmas
