pub mod RunLemmas
pub mod TokenLemmas
pub mod JoinLemmas
pub mod MoveLemmas
pub mod ArgumentLemmas
pub mod ReadLemmas
pub mod StatementLemmas
pub mod GroupLemmas
