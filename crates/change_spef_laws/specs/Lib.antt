pub mod Nets
pub mod Order
pub mod Replaced
pub mod Laws
