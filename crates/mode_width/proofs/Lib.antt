pub mod PrintLemmas
pub mod WidthLemmas
pub mod ApartLemmas
