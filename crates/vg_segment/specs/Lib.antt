pub mod Segments
pub mod Texts
pub mod Leaves
pub mod NodeLists
pub mod Fits
