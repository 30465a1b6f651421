pub mod Refusals
pub mod Nets
pub mod Wires
pub mod Steps
pub mod Laws
pub mod SinkRows
