pub mod Designs
pub mod Parts
pub mod Refusals
pub mod Nets
pub mod Laws
pub mod Steps
