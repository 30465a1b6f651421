pub mod SegmentedTexts
pub mod SegmentedDesigns
