pub mod VerdictLemmas
pub mod ProblemLemmas
pub mod AnswerLemmas
pub mod ApartLemmas
pub mod WidthLemmas
pub mod NewTextLemmas
