pub mod Inputs
pub mod Modes
pub mod Flaws
pub mod Run
pub mod Complete
pub mod Outcomes
pub mod Drafts
