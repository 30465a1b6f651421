pub mod Options
pub mod Request
pub mod Command
pub mod Views
pub mod Laws
