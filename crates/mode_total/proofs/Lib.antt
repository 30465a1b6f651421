pub mod ChoiceLemmas
pub mod WeighLemmas
pub mod TellLemmas
pub mod PickLemmas
pub mod PutLemmas
pub mod AnswerLemmas
pub mod ApartLemmas
