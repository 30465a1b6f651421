pub mod Claims
pub mod Lines
pub mod Judged
pub mod Steps
pub mod Laws
