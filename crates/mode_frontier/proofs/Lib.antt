pub mod FrontLemmas
pub mod ApartLemmas
