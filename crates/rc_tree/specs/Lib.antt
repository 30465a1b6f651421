pub mod Chains
pub mod Nets
pub mod Faults
pub mod Answers
pub mod Links
pub mod Search
pub mod Laws
