pub mod Designs
pub mod Steps
pub mod Laws
