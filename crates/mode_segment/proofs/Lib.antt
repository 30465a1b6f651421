pub mod SectionLemmas
pub mod NetLemmas
pub mod CutLemmas
pub mod ClearLemmas
pub mod AnswerLemmas
pub mod ApartLemmas
