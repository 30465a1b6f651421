pub mod Widths
pub mod Fits
pub mod WidePairs
pub mod WideParts
pub mod WideSolutions
