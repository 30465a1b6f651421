pub mod Edits
pub mod Rows
pub mod Laws
pub mod Pieces
pub mod Kept
