pub mod NameLemmas
pub mod RangeLemmas
pub mod BitNameLemmas
pub mod NetLemmas
pub mod FindLemmas
pub mod InstanceLemmas
pub mod GrowthLemmas
pub mod PushLemmas
