pub mod StaLemmas
pub mod ApartLemmas
