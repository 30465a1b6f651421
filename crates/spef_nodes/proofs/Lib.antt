pub mod NodeListLemmas
pub mod ApartLemmas
pub mod NodeTableLemmas
pub mod OrderedNodeLemmas
pub mod NoteLemmas
pub mod SpellLemmas
pub mod NodeLemmas
pub mod NodeReaderLemmas
