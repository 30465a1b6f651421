pub mod Random
pub mod Nets
pub mod Lines
pub mod Texts
pub mod Designs
pub mod Laws
