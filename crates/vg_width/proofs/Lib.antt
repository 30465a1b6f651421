pub mod NumberLemmas
pub mod TextLemmas
pub mod WidthLemmas
pub mod FitLemmas
pub mod LoadLemmas
pub mod DelayLemmas
pub mod SearchLemmas
