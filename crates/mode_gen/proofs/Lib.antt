pub mod SummaryLemmas
pub mod ApartLemmas
