pub mod ManualLemmas
