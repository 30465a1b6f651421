pub mod Stages
pub mod NewNames
pub mod Splits
pub mod Conditions
pub mod Steps
