pub mod NetlistStages
pub mod NewStages
pub mod Laws
pub mod Limits
