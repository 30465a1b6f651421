pub mod FileLemmas
mod MapLemmas
mod NumberLemmas
mod PieceLemmas
mod ToldLemmas
