pub mod Verdicts
pub mod Faults
pub mod NewTexts
pub mod Answers
pub mod Nets
