pub mod ReadyLaws
pub mod RowLaws
