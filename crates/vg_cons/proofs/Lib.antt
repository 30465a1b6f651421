pub mod LineLemmas
pub mod WordLemmas
pub mod BoxLemmas
pub mod BoxTreeLemmas
pub mod RowLemmas
