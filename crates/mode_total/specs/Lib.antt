pub mod Choices
pub mod Lines
pub mod Answers
pub mod Picked
pub mod Steps
