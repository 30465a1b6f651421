pub mod TotalLemmas
pub mod RepairLemmas
pub mod AnswerLemmas
pub mod ApartLemmas
