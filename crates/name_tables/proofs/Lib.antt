pub mod TextsLemmas
pub mod ChainLemmas
pub mod FiledLemmas
pub mod NameTableLemmas
pub mod OrderedRowLemmas
