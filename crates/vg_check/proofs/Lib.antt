pub mod BoundLemmas
pub mod CoverLemmas
pub mod HullLemmas
pub mod OrderLemmas
pub mod PartLemmas
pub mod ClimbLemmas
pub mod VerdictLemmas
pub mod OneLemmas
