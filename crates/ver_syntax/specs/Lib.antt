pub mod Grammar
pub mod Syntax
pub mod Moves
pub mod Reading
pub mod Rows
pub mod Laws
pub mod Phrases
