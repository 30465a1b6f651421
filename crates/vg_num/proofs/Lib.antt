pub mod CapLemmas
pub mod ClipLemmas
pub mod NearestLemmas
pub mod PrintingLemmas
pub mod ReadingLemmas
pub mod AgainLemmas
pub mod PlainLemmas
