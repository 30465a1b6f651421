pub mod Grammar
pub mod Ways
pub mod Machines
pub mod Laws
