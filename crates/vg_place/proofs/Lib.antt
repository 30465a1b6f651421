pub mod CellLemmas
pub mod PutLemmas
pub mod JudgedLemmas
pub mod FileLemmas
pub mod ApartLemmas
