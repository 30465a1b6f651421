pub mod EditLemmas
pub mod PieceLemmas
mod KeptLemmas
mod TakeLemmas
