pub mod SectionLemmas
pub mod ItemLemmas
pub mod SpanLemmas
pub mod CutLemmas
pub mod RowLemmas
pub mod OtherLemmas
pub mod KeptLemmas
pub mod StretchLemmas
