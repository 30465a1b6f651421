pub mod Put
pub mod Others
pub mod Laws
