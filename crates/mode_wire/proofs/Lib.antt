pub mod ClearLemmas
pub mod ApartLemmas
