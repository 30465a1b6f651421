pub mod CheckLemmas
pub mod ApartLemmas
