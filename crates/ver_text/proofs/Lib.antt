pub mod RunLemmas
pub mod LaneLemmas
pub mod TokenLemmas
pub mod KindLemmas
pub mod OrderLemmas
pub mod WrittenLemmas
